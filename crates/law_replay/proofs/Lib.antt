mod Meanings
mod Descending
