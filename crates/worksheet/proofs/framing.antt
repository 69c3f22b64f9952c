-- Names and bytes as a page shows them.
mod Hex
mod Names
