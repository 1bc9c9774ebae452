mod Steps
mod Beginning
mod Dozing
