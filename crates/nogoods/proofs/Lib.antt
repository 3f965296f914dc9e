mod Answering
mod Joining
mod Learning
mod Watches
mod Zipping
