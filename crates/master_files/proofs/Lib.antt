pub mod ReadOn
