pub mod Limits
pub mod Links
pub mod Redirects
pub mod RedirectViews
pub mod Responses
pub mod Sections
