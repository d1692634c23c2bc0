mod Asking
mod Cells
mod Options
mod Owed
