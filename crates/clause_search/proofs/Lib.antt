mod Answering
mod Valuing
