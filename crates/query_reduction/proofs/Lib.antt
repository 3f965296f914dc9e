mod Related
mod Replacing
mod Truth
