mod Lists
mod Patterns
mod Records
mod Stacked
