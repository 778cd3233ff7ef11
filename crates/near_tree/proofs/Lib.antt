mod Held
mod Rooted
