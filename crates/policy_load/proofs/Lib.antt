mod Names
mod Sound
