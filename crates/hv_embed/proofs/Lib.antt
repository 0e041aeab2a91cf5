mod Crosses
mod Elements
mod Following
mod Listed
mod Walk
