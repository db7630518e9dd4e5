mod AsBox
mod RefusedStarts
mod Crossing
mod Values
