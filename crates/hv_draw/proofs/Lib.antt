mod Beginning
mod Blocks
mod Charting
mod Choosing
mod Drawing
mod Heads
mod Parts
mod WayUp
