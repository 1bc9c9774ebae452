mod Waited
mod Opened
