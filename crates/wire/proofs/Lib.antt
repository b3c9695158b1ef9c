mod Lists
mod Desks
