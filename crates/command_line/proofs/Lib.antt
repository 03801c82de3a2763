mod Numbers
mod Lines
