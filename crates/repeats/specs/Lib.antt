pub mod Kept
pub mod RecordingReaders
pub mod Recordings
pub mod Twin
pub mod TwinGrowing
pub mod TwinListeners
