mod Choices
mod Descending
