mod Tables
mod Copying
mod Inclusive
