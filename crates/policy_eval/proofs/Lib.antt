mod Firsts
mod Unique
mod Telling
mod Tested
