mod Links
mod Whole
