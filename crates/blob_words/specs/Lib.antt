pub mod Limits
pub mod BlobName
pub mod Origin
pub mod FileName
pub mod UrlText
pub mod Lends
pub mod Bytes
pub mod Keys
