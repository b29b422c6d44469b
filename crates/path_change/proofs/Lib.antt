mod Picked
mod Ascii
mod Firsts
