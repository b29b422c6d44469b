mod Best
mod Ports
mod Gathered
