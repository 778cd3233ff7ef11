mod Putting
mod Within
mod Bounding
mod Opening
