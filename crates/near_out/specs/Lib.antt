pub mod NearText
