-- What the counter's contracts cite.
pub mod Totals
