pub mod ListLaws
pub mod RemovalLaws
pub mod CheckLaws
pub mod ExpiryLaws
pub mod ReplyLaws
pub mod UploadLaws
pub mod UploadMessages
