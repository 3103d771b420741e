pub mod Tables
mod Steps
mod Looking
