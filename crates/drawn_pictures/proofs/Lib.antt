mod Lists
mod Drawn
