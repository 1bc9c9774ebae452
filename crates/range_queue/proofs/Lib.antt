mod Acting
mod Announced
mod Inside
mod Looked
mod Starting
mod Tried
