mod Drawn
mod Decoded
