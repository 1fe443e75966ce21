mod Keeping
mod Answering
