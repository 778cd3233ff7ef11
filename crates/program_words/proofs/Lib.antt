mod Folding
mod PlainNumbers
mod PlainWords
mod Reading
