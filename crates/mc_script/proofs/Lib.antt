mod Splitting
mod Answering
