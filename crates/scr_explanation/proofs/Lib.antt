mod Indents
mod LiveSources
mod MovedCells
mod PrintedBounds
mod Roundings
mod Together
mod Trees
