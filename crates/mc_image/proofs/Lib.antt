mod Headers
mod Reading
