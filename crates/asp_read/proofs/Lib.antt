mod Lengths
mod Verdicts
