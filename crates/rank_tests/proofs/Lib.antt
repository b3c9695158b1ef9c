mod Worlds
mod Handing
mod Rows
mod Couples
