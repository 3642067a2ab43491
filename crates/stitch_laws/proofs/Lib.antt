pub mod StitchAccount
