mod LevelValues
mod StartHeads
mod FirstValues
mod Owners
