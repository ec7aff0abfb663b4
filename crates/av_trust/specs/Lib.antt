pub mod Hmac
pub mod Key
pub mod Signed
pub mod Trust
