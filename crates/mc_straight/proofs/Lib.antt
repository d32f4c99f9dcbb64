mod Leaves
mod Forced
mod Paired
