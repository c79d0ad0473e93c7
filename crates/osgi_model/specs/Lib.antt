-- The grammar of filters, the text of one, and what one says of attributes; and how texts spell values of a type.
pub mod Filters
pub mod FilterTexts
pub mod Elements
pub mod Longs
pub mod Values
pub mod Matching
pub mod Comparing
pub mod laws
pub mod computed
