mod Counting
mod Drawn
