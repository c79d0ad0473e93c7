-- Lists of bundles by their ids.
mod Numbered
