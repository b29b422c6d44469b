mod Folding
mod Languages
