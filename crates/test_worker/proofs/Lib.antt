mod Besides
mod Dealing
