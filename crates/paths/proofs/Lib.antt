mod Numerals
mod Marks
mod Decoding
mod Laws
