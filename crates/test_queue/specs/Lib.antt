pub mod Players
