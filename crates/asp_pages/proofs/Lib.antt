mod Filters
mod Parts
mod Finding
mod Collecting
