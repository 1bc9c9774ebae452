mod Crossing
mod Filling
mod Looking
mod Making
mod News
