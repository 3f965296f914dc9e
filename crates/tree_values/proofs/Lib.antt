mod Agreeing
mod Entering
mod Giving
mod Joining
mod Leaving
mod Lists
mod Staying
