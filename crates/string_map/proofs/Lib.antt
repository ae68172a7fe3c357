mod Crossing
mod Fills
mod NotAfter
mod PrefixEnds
