mod Deciding
mod Reading
mod Writing
