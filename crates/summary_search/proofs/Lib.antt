mod Answering
mod Patterns
mod Within
mod Deciding
mod Coming
mod Sampling
