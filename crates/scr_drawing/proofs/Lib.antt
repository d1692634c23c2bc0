mod Below
mod Within
