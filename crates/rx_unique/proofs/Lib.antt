mod Sets
mod Reading
mod Braces
mod Items
mod Classes
mod Parts
mod Levels
mod Whole
