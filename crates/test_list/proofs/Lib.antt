mod Hands
mod OwnNodes
